pub use Rattle.pat_checkpoint_certificates.specs.Bounds
pub use Rattle.pat_checkpoint_certificates.specs.Certified
pub mod Strings
pub mod Writing
pub mod Laws
