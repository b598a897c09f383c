pub mod Vetting
