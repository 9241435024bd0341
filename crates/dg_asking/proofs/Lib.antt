pub mod AttemptLemmas
pub mod VariableLemmas
pub mod TargetLemmas
pub mod SeekingLemmas
