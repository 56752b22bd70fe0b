pub mod Table
pub mod Operators
pub mod Ready
pub mod Ends
