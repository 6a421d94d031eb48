-- for others: a pass of a machine's turn may be moved to another thread, and the turn may be shared
pub mod Crossing
-- the crate's own
mod Placed
mod Holding
mod Rounds
mod Rows
mod Ending
mod Histories
