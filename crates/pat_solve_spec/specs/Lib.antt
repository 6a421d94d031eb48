pub mod LowerBounds
pub mod Assignments
pub mod Derived
pub mod Answers
pub mod Laws
