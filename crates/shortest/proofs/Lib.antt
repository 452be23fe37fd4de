pub mod Ends
pub mod Faults
pub mod Growth
pub mod Laying
pub mod Steps
