mod Runs
mod CompleteExpr
mod CompletePattern
mod CompleteTerm
mod CompleteDecl
mod Built
mod Sound
mod Owed
-- for the crates above
pub mod Exact
pub mod Counts
pub mod Names
