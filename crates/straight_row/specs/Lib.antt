pub mod Index
pub mod Straight
