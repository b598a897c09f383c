pub mod Label
pub mod Marks
