pub use Rattle.pat_inclusion_laws.proofs.CoverLaws
pub use Rattle.pat_inclusion_laws.proofs.Exact
pub use Rattle.pat_inclusion_laws.proofs.Spans
pub mod SameWords
mod Room
mod Lengths
mod Standing
mod StarSteps
mod Meaning
mod ListsOn
mod StarOfWords
mod FormOfParts
mod Multiplied
mod Together
mod Walked
mod Turns
