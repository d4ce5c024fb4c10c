pub mod Powers
pub mod Sound
pub mod Codes
pub mod Made
