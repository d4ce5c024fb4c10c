pub mod Lending
pub mod Handing
