pub mod Entries
pub mod Validity
pub mod ValidityLaws
