pub mod Decimals
pub mod Fields
pub mod Extents
pub mod Volumes
pub mod Passes
pub mod Labelled
pub mod Prepared
