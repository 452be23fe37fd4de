pub mod inner
pub mod Numbers
pub mod Permits
pub mod Promise
