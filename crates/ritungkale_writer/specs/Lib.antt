pub mod Packed
pub mod Lengths
pub mod OnePacked
