pub mod Standing
pub mod Jumps
