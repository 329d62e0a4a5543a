pub mod Loads
pub mod Replies
