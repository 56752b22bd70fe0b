pub mod Outcomes
pub mod Runs
pub mod Statements
pub mod Demands
