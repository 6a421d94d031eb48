pub use Rattle.pat_machine.specs.Gives
pub use Rattle.pat_machine.specs.Remains
pub mod RunText
