pub mod Decided
pub mod ValidLaws
pub mod DecidedLaws
