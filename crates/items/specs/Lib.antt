pub mod Items
pub mod Pairs
pub mod Laws
