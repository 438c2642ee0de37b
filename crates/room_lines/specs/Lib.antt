pub mod PieceLaws
pub mod Pieces
pub mod RoomLines
pub mod RoomText
