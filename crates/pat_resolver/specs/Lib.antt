pub mod Entry
pub mod Steps
pub mod Answers
pub mod numbering
