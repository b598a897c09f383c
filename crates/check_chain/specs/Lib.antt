pub mod Chain
pub mod Entries
