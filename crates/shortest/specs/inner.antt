pub mod Kept
pub mod LaidOut
pub mod Steps
