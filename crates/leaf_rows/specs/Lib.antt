pub mod Leaves
pub mod Puts
