pub mod Walks
pub mod Splits
