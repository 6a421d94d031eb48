pub mod Answers
pub mod states
pub mod ends
