pub mod Figures
pub mod Saying
