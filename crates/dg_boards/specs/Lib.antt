pub mod Triplet
pub mod Table
