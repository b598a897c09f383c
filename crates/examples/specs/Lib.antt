pub mod Steps
pub mod VolumeA
pub mod Blunders
pub mod Options
pub mod Cylinders
pub mod Previews
pub mod Dates
pub mod Joining
