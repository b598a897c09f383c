pub mod Rows
pub mod Eights
pub mod Text
