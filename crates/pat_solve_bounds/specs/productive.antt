pub mod Flags
pub mod Rights
pub mod Users
pub mod Spreading
pub mod Counts
pub mod Found
