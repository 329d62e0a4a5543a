pub mod Fields
pub mod Reads
pub mod Reasons
