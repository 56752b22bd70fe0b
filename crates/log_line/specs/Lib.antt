pub mod Log
pub mod Demands
