mod Halved
mod Changed
mod News
-- for the crates above
pub mod Reversed
