pub mod Laws
pub mod resuming
pub mod text
