pub mod Ranges
pub mod Upwards
