pub use Rattle.pat_solve_bounds.specs.lower_bounds.Indexes
pub mod Sides
pub mod Bounds
pub mod Comparisons
pub mod Rounds
pub mod Forms
pub mod Findings
pub mod Values
