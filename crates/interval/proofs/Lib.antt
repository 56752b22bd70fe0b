pub mod Signed
pub mod Machine
pub mod Laws
pub mod Examples
