pub mod Piece
pub mod Parts
pub mod Transitions
pub mod Machine
pub mod Reading
pub mod Answers
pub mod First
pub mod Grammar
-- For the proofs.
pub mod PartsFall
pub mod Frames
pub mod Runs
