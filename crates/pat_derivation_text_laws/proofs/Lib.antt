pub mod CertsRead
mod DerivationSpelled
mod Exact
mod LinesRead
pub mod LinesSpelled
pub mod Naming
pub mod Sound
pub mod TypesRead
pub mod TypesSpelled
mod Ways
mod ReadAgain
pub mod Running
pub mod Spelled
