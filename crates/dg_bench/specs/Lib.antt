pub mod History
pub mod Cells
pub mod Seen
pub mod Refusals
pub mod Made
pub mod Work
pub mod Replays
