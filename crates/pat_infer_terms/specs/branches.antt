pub mod Arms
pub mod Guards
