pub mod Widths
pub mod Sames
pub mod Pairs
