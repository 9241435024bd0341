pub mod Attempts
pub mod Seeking
