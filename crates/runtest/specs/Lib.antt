pub mod Progress
pub mod Runs
