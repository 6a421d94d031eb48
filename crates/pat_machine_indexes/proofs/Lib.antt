mod Turns
mod Sums
mod Times
mod Lists
pub use Rattle.pat_machine_laws.proofs.WakeupsTops
pub use Rattle.pat_machine_laws.proofs.Senders
-- for others: lemmas on threads that are noted, and on those that are woken
pub mod Noting
pub mod Waking
-- the crate's own
mod Sorted
mod Slept
-- for the crates above
pub mod Boxed
pub mod Delivering
mod Sorting
mod Listing
