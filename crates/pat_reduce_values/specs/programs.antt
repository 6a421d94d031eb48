pub mod FreeVariables
pub mod Places
