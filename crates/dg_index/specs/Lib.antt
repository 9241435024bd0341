pub mod Topic
pub mod Marks
pub mod Places
pub mod Index
pub mod Numbers
pub mod Kept
pub mod Touching
