pub mod Backwards
pub mod Betweens
pub mod Edits
pub mod Heads
pub mod Landings
pub mod Lands
pub mod Relaying
