pub mod Outcomes
pub mod Drawing
