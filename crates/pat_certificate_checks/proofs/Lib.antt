mod Taken
pub mod CoverTags
pub mod Plainly
mod CutsShown
mod Numbered
pub mod Arms
mod Alike
mod Notes
mod Becoming
