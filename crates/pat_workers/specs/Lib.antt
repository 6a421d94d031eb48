pub mod Receipts
pub mod Workers
pub mod Runs
pub mod turns
