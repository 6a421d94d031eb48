pub mod Answers
pub mod Gathered
pub mod Places
pub mod Takings
pub mod Views
