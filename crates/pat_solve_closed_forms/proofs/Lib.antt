mod Rounding
mod Steps
mod Tagged
mod Meaning
mod Kept
mod Bounding
mod Reflexive
