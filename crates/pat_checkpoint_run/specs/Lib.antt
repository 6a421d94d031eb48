pub use Rattle.pat_machine.specs.Gives
pub mod NextNumbers
pub mod Courses
pub mod Searches
