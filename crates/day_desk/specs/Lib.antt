pub mod Loading
pub mod Open
pub mod Opening
