pub use Rattle.pat_obligations.specs.Views
pub use Rattle.pat_obligations.specs.of_terms.Opened
pub mod Arguments
pub mod Settled
