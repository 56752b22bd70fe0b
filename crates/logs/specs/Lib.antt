pub mod Logs
pub mod Statements
