pub mod Living
pub mod Replayed
