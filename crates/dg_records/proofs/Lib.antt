pub mod HoldsLemmas
pub mod ShelfLemmas
