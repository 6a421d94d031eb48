pub use Rattle.pat_semantics_spec.specs.Programs
pub use Rattle.pat_semantics_spec.specs.Values
pub use Rattle.pat_semantics_spec.specs.WellFormed
pub mod Laws
pub mod Orders
