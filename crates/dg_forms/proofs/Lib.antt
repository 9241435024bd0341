pub mod ProcedureLemmas
pub mod Choices
pub mod ClauseLemmas
pub mod ExpressionLemmas
pub mod PairLemmas
pub mod SessionLemmas
pub mod OutputLemmas
pub mod StepLemmas
