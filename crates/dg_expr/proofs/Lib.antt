pub mod Digits
pub mod Plain
pub mod Wholes
pub mod Division
pub mod Shifts
mod Rows
pub mod Levels
pub mod Sound
pub mod Complete
pub mod Low
pub mod Tokens
pub mod Running
pub mod Applying
pub mod Spelling
pub mod Decimals
pub mod Memoryless
