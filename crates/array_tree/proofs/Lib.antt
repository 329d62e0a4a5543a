pub mod Answered
pub mod Blanks
pub mod Closes
pub mod Heights
pub mod Nexts
pub mod Packed
pub mod Wholes
