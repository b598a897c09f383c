pub mod Unused
pub mod Scan
pub mod Read
pub mod Pieces
pub mod Whole
pub mod Free
pub mod Room
