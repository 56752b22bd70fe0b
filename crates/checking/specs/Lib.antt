pub mod Checks
pub mod Statements
