pub mod Replays
pub mod Naming
pub mod Kept
