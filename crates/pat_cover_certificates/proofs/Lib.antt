mod Lists
mod FirstCovers
mod Making
mod Standing
mod Ending
mod OnePeriod
mod Indexing
mod Divisors
