pub use Rattle.pat_inclusion_spec.specs.Certificates
pub use Rattle.pat_inclusion_spec.specs.Values
pub mod Counting
pub mod Views
pub mod Firsts
pub mod Indexes
pub mod coefficients
