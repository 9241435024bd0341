-- The grammar of lists, as relations.
pub mod Escapes
pub mod Lists
pub mod Continuing
pub mod Saying
pub mod Spelling
