pub mod Listing
pub mod Runs
pub mod ListRuns
pub mod ByClass
pub mod RoundTrip
pub mod GrammarLemmas
