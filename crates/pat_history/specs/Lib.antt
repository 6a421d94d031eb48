pub mod Answers
pub mod run_reports
