-- for others: lemmas on jobs, commits and what a machine keeps
pub mod Locals
pub mod Opens
pub mod Tables
pub mod Runs
pub mod Ready
pub mod Firsts
pub mod Takings
pub mod Endings
pub mod Idle
pub mod Rooms
pub mod CommitsLookUps
pub mod CommitsTops
pub mod Exchanges
-- the crate's own
mod Belows
mod Moves
mod Refused
-- for others: who is called, what is found among those that may be ready, who is held back, and what a top lets go
pub mod Calls
pub mod Supersets
pub mod Senders
pub mod WakeupsTops
mod Needs
mod Decides
mod WakeupsChanges
mod Afters
mod Wakes
mod Names
-- for others: a step of a thread alone, what it leaves, and how that is put back
pub mod Backs
pub mod Steps
pub mod Sending
pub mod ThreadFramesLeft
-- for the crates above
pub mod Kept
pub mod Insertions
pub mod Boxes
pub mod MailboxIndexChanges
pub mod MailboxIndexLookUps
-- for others: the laws
pub mod Tells
mod Joined
pub mod Changed
mod Alone
pub mod Live
pub mod Parts
pub mod Freed
pub mod Committed
mod Sums
mod Once
mod RefcountsLeft
