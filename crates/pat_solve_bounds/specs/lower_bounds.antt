pub mod Rows
pub mod Sides
pub mod Sums
pub mod Indexes
pub mod Laws
