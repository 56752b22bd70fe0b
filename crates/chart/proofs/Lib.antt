pub mod Below
pub mod Words
pub mod Records
pub mod Charts
pub mod Usable
pub mod Entries
pub mod Added
pub mod Parts
pub mod Places
pub mod Lines
pub mod Examples
pub mod Numbers
mod Fitting
