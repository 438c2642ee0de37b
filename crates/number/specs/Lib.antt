pub mod Number
pub mod Groups
pub mod Vectors
