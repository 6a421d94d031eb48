pub mod Places
pub mod Words
pub mod Reasons
pub mod Inputs
pub mod Explains
pub mod Checks
pub mod Laws
