pub mod Crossing
mod Forms
mod Meaning
mod ResidualsMeaning
pub mod Made
