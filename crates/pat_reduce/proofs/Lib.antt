mod Places
mod Taken
-- for the crates above
pub mod Shared
pub mod Ascending
pub mod Candidates
pub mod LeastActs
pub mod StepNumbers
mod Callees
mod Firsts
mod FramesReversed
mod ParametersKept
mod Refusals
