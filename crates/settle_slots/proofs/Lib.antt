pub mod Slots
pub mod Chains
pub mod Settled
