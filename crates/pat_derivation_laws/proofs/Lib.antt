-- for others: patterns into which values are put, demands that are met, and types with values put in
pub mod Filled
pub mod DemandsMet
pub mod Names
pub mod Signatures
-- the crate's own
mod Unbroken
mod Terms
mod Guards
mod Valid
mod ScopeLaws
mod ReadingLaws
mod Tested
