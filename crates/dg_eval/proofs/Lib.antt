pub mod JobLemmas
pub mod Crosses
