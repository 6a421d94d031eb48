-- for others: a job that leaves and its commit, and rounds of them
pub mod Rounds
-- the crate's own
mod Lending
mod Ending
mod Finishing
mod Naming
mod Guards
