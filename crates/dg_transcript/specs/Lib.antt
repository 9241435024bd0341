pub mod Fields
pub mod Limits
pub mod Lines
pub mod Order
pub mod Output
pub mod Replay
pub mod Sessions
pub mod Decoded
pub mod Step
pub mod Text
-- of which only the crate's own functions and proofs speak
pub mod Kept
pub mod Small
pub mod Spaced
