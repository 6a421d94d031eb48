mod Lines
mod Once
mod Few
mod ProgramWithTextOnce
-- for the crates above
pub mod Small
