pub mod Numbers
pub mod Calls
