pub mod Items
pub mod Writing
pub mod Windows
pub mod Turning
pub mod Theorems
