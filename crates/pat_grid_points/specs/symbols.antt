pub mod Views
pub mod Laying
