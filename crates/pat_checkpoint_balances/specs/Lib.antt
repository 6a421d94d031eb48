pub mod Tables
pub mod Gathered
