mod Starting
mod Answering
mod Leading
mod Points
mod Solutions
mod Shown
mod Once
-- for the crates above
pub mod Statuses
