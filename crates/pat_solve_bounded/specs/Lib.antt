pub mod Variables
pub mod Limits
pub mod Views
pub mod replacing
