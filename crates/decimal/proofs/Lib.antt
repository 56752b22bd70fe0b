pub mod Laws
pub mod Tenths
mod Digits
mod Examples
