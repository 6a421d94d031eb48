pub use Rattle.pat_checkpoint_input.specs.CheckedTexts
pub mod Allowed
pub mod Answers
pub mod Gives
