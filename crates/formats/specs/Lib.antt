pub mod Layouts
pub mod Lawful
pub mod Reaching
pub mod Codes
