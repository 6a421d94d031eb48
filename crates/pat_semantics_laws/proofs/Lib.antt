-- for others: lemmas on lists, order, look-ups and steps
pub mod Lists
pub mod FreeVars
pub mod Scopes
pub mod Inversion
pub mod Enabled
pub mod Replays
pub mod Threads
pub mod Ascending
pub mod Ordered
pub mod Leasts
-- the crate's own
mod Outcomes
