mod Grown
pub mod Joining
mod Variables
