pub mod Reply
pub mod Made
