pub mod Instants
pub mod Conditions
