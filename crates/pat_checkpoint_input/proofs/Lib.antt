mod Giving
mod Once
mod Percents
mod Leading
mod OnePieces
-- for the crates above
pub mod Small
pub mod Marks
