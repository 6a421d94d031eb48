pub mod Digits
pub mod Sets
pub mod Members
mod Listed
mod InBlocks
mod Linked
mod Along
mod Ascending
