-- for the crates above
pub mod Small
-- the crate's own
mod Giving
mod Once
