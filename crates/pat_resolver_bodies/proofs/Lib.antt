mod Chains
mod Forms
mod Order
mod Places
mod Rest
mod Steps
mod Within
-- for the crates above
pub mod Rows
