pub mod Opening
pub mod OpeningLaws
pub mod Turn
pub mod TurnLaws
pub mod Shows
pub mod Plays
