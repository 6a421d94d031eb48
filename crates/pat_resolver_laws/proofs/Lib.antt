mod Blocks
mod Expressions
mod Terms
mod Declared
mod Whole
mod Strings
mod Written
mod Given
-- for the crates above
pub mod Counting
pub mod Binding
pub mod Resolved
