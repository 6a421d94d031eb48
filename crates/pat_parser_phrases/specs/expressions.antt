pub mod Views
pub mod Operators
pub mod Reads
