-- What is proved of the texts that Without, Exchanged and Taken define. Assumes nothing.
pub mod WithoutLaws
pub mod ExchangedLaws
pub mod TakenLaws
