mod Fewness
mod OneVerdict
-- for the crates above
pub mod Resolved
pub mod Refusals
