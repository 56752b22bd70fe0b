pub mod Merging
pub mod Turns
pub mod Statements
