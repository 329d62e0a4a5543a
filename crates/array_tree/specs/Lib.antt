pub mod Filling
pub mod Props
pub mod Standing
pub mod Trees
