mod Places
pub mod Marks
pub mod Sheet
pub mod Commas
pub mod Readings
pub mod Numerals
pub mod Hex
pub mod Splits
