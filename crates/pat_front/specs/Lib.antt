pub mod Lines
pub mod Texts
pub mod Laws
pub mod exit_answers
