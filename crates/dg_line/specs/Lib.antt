pub mod Options
pub mod Words
pub mod Values
pub mod Plan
pub mod Select
