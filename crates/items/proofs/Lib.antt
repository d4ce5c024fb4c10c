pub mod Items
pub mod Constants
pub mod Answered
pub mod Leaps
