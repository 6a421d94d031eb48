mod Bindings
mod Halving
-- for the crates above
pub mod Finds
mod Keeping
mod LetBodies
mod VariableSets
mod FreeLists
