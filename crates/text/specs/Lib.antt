pub mod Grammar
pub mod Heads
pub mod Meaning
pub mod Promise
pub mod Reading
pub mod Texts
pub mod Tokens
pub mod inner
