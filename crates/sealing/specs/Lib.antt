pub mod Numbers
pub mod Sealing
