pub mod Layout
pub mod Twos
pub mod Laws
