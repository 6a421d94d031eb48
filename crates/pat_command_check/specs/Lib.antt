pub use Rattle.pat_typecheck.specs.Inputs
pub use Rattle.pat_typecheck.specs.Laws
pub mod Allowed
pub mod Typable
