pub use Rattle.pat_derivations.specs.Views
pub mod Tested
pub mod points
pub mod forms
pub mod Symbols
