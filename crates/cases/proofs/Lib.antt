pub mod Worked
pub mod Answered
pub mod Counts
