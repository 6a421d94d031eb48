-- for others: lemmas on threads that are put in their places
pub use Rattle.pat_machine_laws.proofs.Locals
-- the crate's own
mod Opened
mod Prospected
mod Awaiting
mod Asides
mod Keeping
mod Referring
mod Reaching
mod Reading
mod Seen
