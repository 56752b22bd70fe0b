pub mod Checking
pub mod Pieces
pub mod Counting
pub mod Examples
