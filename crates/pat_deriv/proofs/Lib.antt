mod Names
mod Unread
mod Closed
-- for the crates above
pub mod ReadingOnce
