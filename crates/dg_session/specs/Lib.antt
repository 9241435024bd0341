pub mod Answer
pub mod Fault
pub mod Request
pub mod Session
