pub mod Canonical
pub mod Bare
pub mod Text
