pub mod Printed
pub mod Words
