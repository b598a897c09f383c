pub mod NewSet
pub mod MoreSpace
pub mod Decided
pub mod Laws
