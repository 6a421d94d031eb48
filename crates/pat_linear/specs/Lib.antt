pub mod Views
pub mod Rooms
pub mod Forms
pub mod Flat
pub mod WordSets
pub mod Along
