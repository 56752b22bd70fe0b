pub mod Steps
pub mod Answers
pub mod Histories
pub mod Demands
