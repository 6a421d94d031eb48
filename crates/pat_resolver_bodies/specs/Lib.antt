pub mod Above
pub mod Needs
pub mod Seen
pub mod Steps
