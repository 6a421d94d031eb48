pub mod Lists
pub mod Keeping
pub mod Tables
pub mod Typed
pub mod Standing
pub mod Shown
