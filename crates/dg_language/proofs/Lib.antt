pub mod Sources
pub mod Once
pub mod Asking
pub mod Places
pub mod ReadsLemmas
pub mod RowLemmas
pub mod NestedForms
pub mod TouchLemmas
pub mod StateLemmas
pub mod Commands
pub mod Crosses
pub mod Performing
pub mod SessionRows
mod GrowingLemmas
