pub mod Chains
pub mod Promise
pub mod inner
