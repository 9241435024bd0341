pub mod Phases
pub mod Views
pub mod Steps
