pub mod Asked
pub mod AskedLaws
pub mod RoomPrinted
pub mod RoomTheorem
