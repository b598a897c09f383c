pub mod Laws
pub mod Lookup
pub mod Numbers
pub mod Room
pub mod Calls
