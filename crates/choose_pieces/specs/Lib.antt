pub mod Grant
pub mod Options
pub mod Pass
