pub mod Laws
pub mod Meaning
pub mod Taking
pub mod Joined
pub mod Shape
