pub mod Stacks
pub mod Ascending
pub mod Replacing
pub mod Deriving
