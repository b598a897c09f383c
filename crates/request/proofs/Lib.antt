pub mod Free
pub mod Granting
pub mod Laws
