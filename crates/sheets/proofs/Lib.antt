pub mod Runs
pub mod LineOrder
pub mod MoreCalls
pub mod Calm
pub mod Rows
