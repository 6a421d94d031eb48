pub use Rattle.pat_machine_laws.specs.wakeups.Wakings
pub use Rattle.pat_machine_laws.specs.wakeups.Senders
pub mod Ascending
pub mod ReadySets
pub mod Noted
