pub mod Shorter
pub mod Going
pub mod Giving
pub mod Deciding
