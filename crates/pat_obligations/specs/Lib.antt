pub use Rattle.pat_derivations.specs.environments.Lists
pub mod Views
pub mod Listed
pub mod Ordered
pub mod of_terms
