pub mod Places
pub mod Views
pub mod Results
pub mod Growing
pub mod Walked
pub mod Problems
pub mod signatures
