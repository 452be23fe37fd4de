pub mod Elements
pub mod Paths
pub mod Promise
pub mod Spelled
pub mod Viable
