pub mod Manual
pub mod Names
pub mod Permitted
