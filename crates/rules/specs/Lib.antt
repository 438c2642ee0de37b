-- The rules: open Play first, and what it names. What is proved of them: proofs/. Assumes nothing.
pub mod Table
pub mod Room
pub mod Reading
pub mod Clock
pub mod Sight
pub mod Outcome
pub mod Submit
pub mod Deliver
pub mod Switching
pub mod Decide
pub mod Play
