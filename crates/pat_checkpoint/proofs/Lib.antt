mod Plain
mod Written
mod Below
mod Behind
-- for the crates above
pub mod Strings
