pub mod Standing
pub mod Keeps
pub mod Steps
pub mod Judging
pub mod Laying
pub mod Settling
pub mod Changing
pub mod Determined
