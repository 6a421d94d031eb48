pub mod Kinds
pub mod Progress
