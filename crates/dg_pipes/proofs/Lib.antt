pub mod Pumping
pub mod Prefixes
pub mod Places
