pub mod Received
pub mod Rests
