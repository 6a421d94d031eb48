pub use Rattle.pat_certificate_values.specs.Tested
pub mod Words
pub mod Counts
