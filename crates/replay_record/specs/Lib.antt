pub mod Line
pub mod Asked
