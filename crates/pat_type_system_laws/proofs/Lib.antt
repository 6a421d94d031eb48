-- for others: lemmas on typings
pub mod Passing
pub mod Splitting
pub mod Environments
pub mod Nodes
pub mod Named
pub mod Unused
-- the crate's own
mod Unbound
