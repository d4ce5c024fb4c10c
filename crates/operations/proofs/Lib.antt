pub mod Rows
pub mod Named
mod Apart
