pub mod Claims
pub mod Marked
pub mod Lines
pub mod Tallies
