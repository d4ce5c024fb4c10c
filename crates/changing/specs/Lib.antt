pub mod Numbers
pub mod Changing
