pub mod Contents
pub mod Hashing
