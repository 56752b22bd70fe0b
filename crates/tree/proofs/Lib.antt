pub mod References
pub mod Lengths
pub mod Written
pub mod Meaning
pub mod Examples
