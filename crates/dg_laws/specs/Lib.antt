pub mod Grafting
pub mod Law
pub mod Replays
pub mod Awaiting
pub mod WordValues
