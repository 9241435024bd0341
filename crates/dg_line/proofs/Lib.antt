pub mod WordLemmas
pub mod PlanLemmas
pub mod SelectLemmas
