pub mod Belongs
