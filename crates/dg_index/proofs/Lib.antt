pub mod Crosses
pub mod IndexLemmas
pub mod KeptLemmas
pub mod LookingLemmas
pub mod MarksLemmas
pub mod NumbersLemmas
pub mod TopicLemmas
pub mod TouchingLemmas
