pub mod Names
pub mod Tallies
pub mod Operands
pub mod Pairs
