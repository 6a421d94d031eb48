pub use Rattle.pat_machine.specs.Gives
pub use Rattle.pat_machine.specs.Shown
pub mod Runs
pub mod Runners
