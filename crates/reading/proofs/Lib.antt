pub mod Backs
pub mod Apart
pub mod Tell
pub mod Steps
pub mod Takes
pub mod Grouped
