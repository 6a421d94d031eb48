pub use Rattle.pat_parser_spec.specs.Trees
pub mod Scopes
pub mod Heads
pub mod Findings
pub mod Numbering
pub mod Places
pub mod Claims
pub mod Resolved
