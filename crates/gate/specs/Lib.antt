pub mod Numbers
pub mod Promise
