pub mod Settling
pub mod Leading
