pub mod StepLemmas
pub mod IdLemmas
