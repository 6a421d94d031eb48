mod Placed
mod Told
mod Worded
mod Checking
mod Complete
mod OneVerdict
-- for the crates above
pub mod Statuses
