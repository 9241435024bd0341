pub mod Trees
pub mod Numbers
pub mod Joined
pub mod Exchanges
pub mod Links
