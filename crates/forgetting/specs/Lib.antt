pub mod Forgetting
pub mod Walk
