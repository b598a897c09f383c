pub mod Spare
pub mod Labels
pub mod Check
