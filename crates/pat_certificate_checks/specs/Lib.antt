pub mod Numbering
pub mod Views
pub mod Plain
pub mod Shown
pub mod Notes
