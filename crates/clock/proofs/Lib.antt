mod Turns
pub mod AnsweredLaws
pub mod TickLaws
pub mod KnownLaws
pub mod ClockLaws
