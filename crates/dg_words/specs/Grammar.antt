-- The grammar of scripts, as relations.
pub mod Words
pub mod Operands
pub mod Continuing
pub mod Ends
pub mod Saying
pub mod Spelling
