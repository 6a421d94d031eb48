pub mod uses
pub mod scopes
