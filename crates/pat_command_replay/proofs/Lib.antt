mod Giving
mod Answering
-- for the crates above
pub mod Statuses
mod Once
