pub mod Groups
pub mod Items
pub mod Texts
pub mod Theorems
