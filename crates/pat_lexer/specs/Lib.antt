pub mod Explains
pub mod Ends
pub mod Progress
pub mod Changes
pub mod Reads
pub mod Lexed
pub mod fronts
