pub use Rattle.pat_machine_laws.proofs.Runs
pub use Rattle.pat_machine_laws.proofs.CommitsLookUps
-- for others: runs on the top of a thread
pub mod Settlings
-- the crate's own
mod Sames
mod Slots
pub use Rattle.pat_machine_laws.proofs.Backs
pub use Rattle.pat_machine_laws.proofs.Sending
pub use Rattle.pat_machine_laws.proofs.Steps
mod Apart
mod Copying
mod InPlace
mod Lets
