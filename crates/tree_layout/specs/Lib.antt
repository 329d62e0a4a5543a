pub mod Belongs
pub mod Laws
pub mod Levels
pub mod Rows
