pub mod Areas
pub mod Leaves
pub mod Levels
pub mod Rows
pub mod Sums
