pub mod patterns
pub mod inclusions
