pub mod Answers
pub mod walk
