pub mod Codes
pub mod Limits
pub mod Orders
pub mod Lex
