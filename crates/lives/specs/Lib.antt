pub mod Deeds
pub mod Listing
pub mod Life
pub mod Tied
pub mod Numbers
