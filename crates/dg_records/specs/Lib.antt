pub mod Reads
pub mod Truth
pub mod Shelf
