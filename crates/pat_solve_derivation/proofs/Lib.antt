mod Bare
mod Filling
mod Needing
mod Showing
mod Kept
mod Added
mod Apart
