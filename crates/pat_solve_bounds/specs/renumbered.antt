pub mod Renaming
pub mod Systems
