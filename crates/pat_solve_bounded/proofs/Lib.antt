mod Sums
pub mod Limited
mod Turns
mod Lookups
mod Slopes
mod Staying
