pub mod Marked
pub mod Splits
pub mod program_with_text
