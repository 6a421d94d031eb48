pub mod Types
pub mod Combining
pub mod Stopping
pub mod Gathering
pub mod Looking
pub mod variables
pub mod lets
