mod Answering
mod Once
-- for the crates above
pub mod Statuses
