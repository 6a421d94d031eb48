mod Putting
mod Gathered
mod LookUps
pub mod Listed
mod Naming
mod Checked
mod AtMostOne
