pub mod Changes
pub mod Faults
pub mod Meaning
pub mod Promises
pub mod Slots
