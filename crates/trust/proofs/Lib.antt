pub mod Found
pub mod Layers
pub mod Means
pub mod Numbers
pub mod Shortest
pub mod Ways
