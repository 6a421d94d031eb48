pub mod Bounds
pub mod Certified
pub mod Searches
pub mod Needs
pub mod Found
pub mod Parts
pub mod Balances
