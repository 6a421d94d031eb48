pub use Rattle.pat_checkpoint_input.specs.Pieces
pub mod Allowed
pub mod Answers
