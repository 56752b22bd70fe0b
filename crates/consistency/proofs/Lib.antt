pub mod Rows
pub mod Ready
pub mod Theorems
pub mod Examples
