pub mod Names
pub mod Entries
pub mod Pairs
