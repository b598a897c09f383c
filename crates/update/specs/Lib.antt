pub mod Pending
pub mod Commit
pub mod Writing
