pub use Rattle.pat_history.specs.run_reports.RunText
pub mod Histories
pub mod OneReplay
pub mod Gives
