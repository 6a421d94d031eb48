pub mod Numbers
pub mod Frames
