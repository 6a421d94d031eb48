pub mod Places
pub mod Needs
pub mod Views
pub mod patterns
