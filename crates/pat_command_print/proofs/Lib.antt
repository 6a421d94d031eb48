mod Refusals
-- for the crates above
pub mod Statuses
