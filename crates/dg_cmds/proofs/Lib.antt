pub mod PlaceLemmas
pub mod SetLemmas
pub mod ListLemmas
pub mod AnswerLemmas
pub mod RepeatLemmas
pub mod FieldLemmas
pub mod FormatLemmas
pub mod MemoryLemmas
