pub mod Choices
pub mod Readings
pub mod Least
