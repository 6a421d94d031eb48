mod Cuts
mod Entries
mod Lines
mod Ways
