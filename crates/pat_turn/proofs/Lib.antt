mod Lists
mod Steps
mod Waiting
mod Settled
