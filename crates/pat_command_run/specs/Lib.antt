pub use Rattle.pat_run.specs.single.Runners
pub mod Allowed
pub mod load
