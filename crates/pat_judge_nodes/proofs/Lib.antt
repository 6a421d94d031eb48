mod Above
mod Differing
mod Lookups
mod Settled
mod Tables
mod Walks
