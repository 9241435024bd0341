pub mod SelectionLemmas
pub mod ReadingLemmas
pub mod ReportLemmas
pub mod RequestLemmas
pub mod SessionLemmas
pub mod WritingLemmas
