pub mod Answers
pub mod Halves
pub mod Part
pub mod Puts
