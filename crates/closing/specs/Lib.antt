pub mod Added
pub mod Closed
