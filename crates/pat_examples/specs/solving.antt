pub mod Constraints
