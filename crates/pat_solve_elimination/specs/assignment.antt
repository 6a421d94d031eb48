pub use Rattle.pat_solve_bounded.specs.replacing.Replacing
pub mod Results
