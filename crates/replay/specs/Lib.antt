pub mod Operands
pub mod Names
pub mod VectorNames
pub mod Words
pub mod Rules
pub mod Constants
pub mod Lines
pub mod Tallies
