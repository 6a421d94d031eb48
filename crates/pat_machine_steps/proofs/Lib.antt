-- for others: lemmas on a job's thread after its local steps, and on the end of its commit
pub mod Settled
mod Acts
-- the crate's own
mod Left
pub use Rattle.pat_machine_laws.proofs.Freed
pub use Rattle.pat_machine_laws.proofs.Live
pub use Rattle.pat_machine_laws.proofs.Parts
-- for others: what a commit lists
pub mod Listed
mod Stepping
mod Senders
mod Turns
