pub mod Asked
pub mod Figures
