pub mod Laws
mod Fields
mod Examples
pub mod Lines
