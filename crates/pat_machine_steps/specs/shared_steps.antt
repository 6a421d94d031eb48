pub use Rattle.pat_machine_states.specs.Boxes
pub use Rattle.pat_machine_states.specs.Opening
pub use Rattle.pat_machine_states.specs.Remains
pub use Rattle.pat_machine_states.specs.Taking
pub mod Settling
pub mod Leaving
