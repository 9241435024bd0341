pub mod Classes
pub mod Calls
pub mod Lines
pub mod Standing
pub mod Steps
pub mod Tally
