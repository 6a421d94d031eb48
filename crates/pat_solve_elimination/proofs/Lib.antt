mod Rebuilt
mod Fusing
mod AtOnce
mod Growths
mod Turning
mod Kept
mod Pairs
mod FirstTurns
mod SecondTurns
mod Steps
mod Ties
pub mod Forms
mod Fitting
mod Weights
mod Resolutions
mod Weighed
mod Marked
