pub mod Printed
pub mod PlayTheorem
pub mod Edits
pub mod Exchanges
pub mod BelievedBytes
pub mod Demands
