pub mod Numbers
pub mod Names
pub mod Lines
pub mod Deeds
