pub mod Desks
pub mod Loading
pub mod Refusals
pub mod Replies
