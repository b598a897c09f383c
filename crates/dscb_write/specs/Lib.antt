pub mod Labels
pub mod Put
pub mod Blank
pub mod Fives
