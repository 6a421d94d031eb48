pub mod HistoryText
pub mod EntryReading
pub mod Reading
