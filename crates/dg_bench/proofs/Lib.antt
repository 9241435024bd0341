pub mod CellLemmas
pub mod Places
pub mod Steps
pub mod Making
pub mod Crossing
pub mod Working
