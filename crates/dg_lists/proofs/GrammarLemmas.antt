-- What the grammar spells, and what is read.
pub mod Numbers
pub mod Bytes
pub mod ListRead
pub mod ListSpelled
pub mod Endable
pub mod ListSteps
pub mod ListFaults
pub mod ListKinds
pub mod Answered
pub mod Places
pub mod ListInside
pub mod ListTold
