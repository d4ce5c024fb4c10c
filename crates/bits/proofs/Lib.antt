pub mod Shifts
pub mod Layouts
pub mod Walks
pub mod Twos
