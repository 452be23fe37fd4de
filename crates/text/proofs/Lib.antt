pub mod Again
pub mod Cuts
pub mod Digits
pub mod Laws
pub mod Sentences
pub mod Told
pub mod Values
pub mod Written
