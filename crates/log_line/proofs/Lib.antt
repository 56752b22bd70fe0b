pub mod Laws
pub mod Writing
pub mod ReadBack
pub mod Demands
mod Examples
