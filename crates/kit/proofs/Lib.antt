pub mod Checking
pub mod Filling
pub mod Writing
pub mod Events
