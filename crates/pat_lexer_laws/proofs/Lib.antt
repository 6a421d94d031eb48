mod Spellings
mod ByClass
-- for the crates above
pub mod Runs
pub mod Numbers
pub mod Classes
pub mod Unique
pub mod Reaching
pub mod Texts
pub mod Strings
pub mod Beginnings
pub mod MarkBeginnings
pub mod NameBeginnings
pub mod Faults
pub mod Broken
