mod Runs
mod Runnable
-- for the crates above
mod Statuses
pub mod LoadStatuses
