pub mod Play
pub mod Recording
pub mod Operations
