pub mod Numbering
mod Indexed
mod Adding
pub mod Ties
pub use Rattle.pat_solve_laws.proofs.Apart
pub use Rattle.pat_solve_laws.proofs.Closed
pub mod PlaceLaws
pub mod Renames
pub mod Systematic
mod TestLaws
mod Noting
mod Turns
mod Counted
mod Answered
