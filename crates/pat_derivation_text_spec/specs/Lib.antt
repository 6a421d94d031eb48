pub mod DerivationText
pub mod LineReading
pub mod Reading
pub mod patterns
