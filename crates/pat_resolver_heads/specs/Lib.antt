pub mod Names
pub mod Signatures
pub mod HeadPlaces
pub mod Views
pub mod Examined
pub mod results
pub mod tables
