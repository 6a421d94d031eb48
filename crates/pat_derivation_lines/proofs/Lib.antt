pub mod Names
mod Places
mod Lasts
