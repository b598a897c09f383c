pub mod Pieces
pub mod Cutting
pub mod Laws
pub mod Keeping
pub mod Joining
