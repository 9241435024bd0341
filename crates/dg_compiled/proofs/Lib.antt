pub mod ScriptLemmas
pub mod GatherLemmas
pub mod WordParts
pub mod TextLemmas
pub mod ExpressionLemmas
pub mod ComputingLemmas
pub mod Crosses
pub mod WholeLemmas
