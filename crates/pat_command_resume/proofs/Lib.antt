mod Answering
mod Going
mod Once
-- for the crates above
pub mod Statuses
