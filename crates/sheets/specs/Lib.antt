pub mod History
pub mod Entries
pub mod Numbers
pub mod Sheet
