pub mod Known
pub mod Places
pub mod Distances
pub mod Aims
pub mod Lawfuls
pub mod Stands
