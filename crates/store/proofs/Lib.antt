pub mod Answers
pub mod Fronts
pub mod GetOr
pub mod Halves
pub mod Part
pub mod Puts
