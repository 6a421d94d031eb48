pub use Rattle.pat_semantics_spec.specs.Programs
pub use Rattle.pat_semantics_spec.specs.Values
pub mod Types
pub mod Typings
pub mod Holdings
pub mod Typed
pub mod Interfaces
