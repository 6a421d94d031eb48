pub mod Answers
pub mod nodes
