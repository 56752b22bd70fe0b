pub mod References
pub mod Places
pub mod Marks
pub mod Walk
pub mod Restored
pub mod Forgetting
