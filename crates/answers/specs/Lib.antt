pub mod Bytes24
