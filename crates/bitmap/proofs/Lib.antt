pub mod Bits
pub mod Words
pub mod Walk
pub mod Counting
pub mod Near
pub mod Held
pub mod Far
