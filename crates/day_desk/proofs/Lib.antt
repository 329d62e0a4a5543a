pub mod Limits
pub mod Loads
pub mod Opens
pub mod Serves
