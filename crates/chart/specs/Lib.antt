pub mod Operators
pub mod Records
pub mod Charts
pub mod Statements
