pub mod AnsweredOn
pub mod Tick
pub mod Known
pub mod Clocked
