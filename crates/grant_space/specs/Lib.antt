pub mod Asking
pub mod Longer
pub mod Granting
pub mod Deciding
