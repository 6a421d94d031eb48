mod Found
mod Tags
mod Checks
mod Tied
-- for the crates above
pub mod Size
pub mod Firsts
mod Differing
mod Keys
mod Places
mod Tops
