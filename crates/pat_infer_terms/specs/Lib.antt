pub use Rattle.pat_infer_environments.specs.Gathering
pub use Rattle.pat_infer_environments.specs.Looking
pub use Rattle.pat_infer_environments.specs.Types
pub mod Adding
pub mod Calls
pub mod Views
pub mod branches
