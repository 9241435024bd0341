pub mod ItemLemmas
pub mod LeavesLemmas
pub mod RunLemmas
pub mod SearchLemmas
pub mod SpanLemmas
pub mod MarkLemmas
pub mod RowLemmas
pub mod LeastLemmas
pub mod TestLemmas
pub mod FirstLemmas
pub mod PartLemmas
pub mod ReadingLemmas
pub mod TrailLemmas
mod Examples
