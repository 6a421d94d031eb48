pub use Rattle.pat_inclusion_spec.specs.Covers
pub use Rattle.pat_inclusion_spec.specs.Certificates
pub use Rattle.pat_inclusion_spec.specs.Values
pub mod Compared
pub mod NodeTypes
pub mod Signatures
pub mod Typings
