pub mod Views
pub mod Postfix
