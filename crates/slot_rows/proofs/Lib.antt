pub mod Held
pub mod Leads
pub mod Looks
pub mod Packs
pub mod Parts
pub mod Shifts
pub mod Splices
