pub mod Built
pub mod Filled
pub mod Written
pub mod Zeros
