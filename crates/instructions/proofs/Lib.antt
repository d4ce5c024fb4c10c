pub mod Checks
pub mod Constants
pub mod Forms
pub mod Lawfuls
pub mod Sizes
