pub mod Listings
pub mod Shortened
