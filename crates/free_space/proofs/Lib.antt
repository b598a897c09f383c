pub mod Small
pub mod Release
pub mod Scratch
pub mod Laws
pub mod Calls
pub mod Decided
