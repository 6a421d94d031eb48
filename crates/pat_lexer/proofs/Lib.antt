mod Standing
mod Between
mod Inside
mod Slices
mod Characters
mod Endings
mod Histories
mod Unsure
mod Holding
mod Cuts
-- for the crates above
mod WordOr
