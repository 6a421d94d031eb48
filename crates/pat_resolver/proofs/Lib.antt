pub use Rattle.pat_resolver_laws.proofs.Resolved
mod Entries
mod Rows
mod Room
mod Definitions
mod Wholes
mod Adding
mod Branching
mod Ending
mod Guarding
mod Letting
-- for the crates above
mod Sizes
