mod Listing
pub mod Meaning
mod Reached
mod Relaxing
mod Closing
mod Turns
mod Summing
mod Done
mod Waiting
mod Walking
mod Settled
