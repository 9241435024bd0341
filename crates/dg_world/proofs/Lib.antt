pub mod AnswerLemmas
pub mod NameLemmas
pub mod TranscriptLemmas
pub mod WorldLemmas
pub mod PartLemmas
pub mod SettingLemmas
