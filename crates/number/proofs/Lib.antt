pub mod GroupLaws
pub mod ReasonLaws
pub mod NumberLaws
pub mod Reading
pub mod Writing
