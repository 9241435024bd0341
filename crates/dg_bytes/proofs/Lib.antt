pub mod Growing
pub mod Orders
