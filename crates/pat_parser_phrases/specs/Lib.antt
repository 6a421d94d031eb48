pub mod tokens
pub mod types
pub mod expressions
pub mod declarations
