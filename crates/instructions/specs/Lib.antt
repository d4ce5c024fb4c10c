pub mod Faults
pub mod Numbers
pub mod Words
pub mod Laws
