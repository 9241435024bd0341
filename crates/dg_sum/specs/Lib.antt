pub mod Judged
pub mod Report
pub mod Lines
pub mod Block
