mod Counted
mod Entries
mod Halves
mod MayFree
mod Refusing
mod Settling
mod Walks
mod Makes
