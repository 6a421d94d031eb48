pub use Rattle.pat_replay_input.specs.Histories
pub use Rattle.pat_replay_input.specs.RunText
pub mod Pieces
pub mod Allowed
pub mod Answers
pub mod Gives
