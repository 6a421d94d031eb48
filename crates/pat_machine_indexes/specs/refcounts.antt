pub use Rattle.pat_machine_laws.specs.refcounts.Counting
pub mod Changes
pub mod Listing
pub mod Telling
