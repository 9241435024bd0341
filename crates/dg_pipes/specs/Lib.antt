pub mod Items
pub mod Steps
pub mod Faults
pub mod Waits
