pub mod Ascii
pub mod Pairs
pub mod Letters
