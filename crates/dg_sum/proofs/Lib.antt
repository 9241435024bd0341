pub mod TextLemmas
pub mod TallyLemmas
pub mod LengthLemmas
