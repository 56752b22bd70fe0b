pub mod Text
pub mod Quoted
pub mod Output
