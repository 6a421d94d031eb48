pub mod Smallest
pub mod Steps
pub mod States
pub mod interface
