pub mod Digits
pub mod Laws
pub mod Tails
pub mod Wholes
