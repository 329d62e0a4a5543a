pub mod Index
pub mod Standing
pub mod Refreshing
