mod Ordered
mod Entries
mod Gets
mod Joined
pub mod Demanded
pub mod Listing
mod NodeDemands
mod Numbers
pub mod OpenedSignatures
mod Turns
