pub mod Answers
pub mod Faults
pub mod Laws
pub mod Places
pub mod Promise
pub mod inner
