pub mod Number
pub mod Numbers
pub mod Truth
pub mod Operator
pub mod Answers
pub mod Tree
pub mod TreeCode
pub mod Token
pub mod Grammar
pub mod Reading
pub mod Steps
pub mod Code
pub mod ShortCircuit
pub mod Arithmetic
-- For the proofs.
pub mod Shape
pub mod TreeFall
