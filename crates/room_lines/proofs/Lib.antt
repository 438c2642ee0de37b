-- What is proved of the texts that RoomText defines. Assumes nothing.
pub mod RoomTextLaws
