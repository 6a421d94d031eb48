pub use Rattle.pat_machine_laws.specs.refcounts.Counting
pub use Rattle.pat_machine_laws.specs.refcounts.Naming
pub mod Sleepers
