pub mod Stand
pub mod Keys
pub mod Leaves
pub mod Renews
