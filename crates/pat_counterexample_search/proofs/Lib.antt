mod Steps
mod Trees
pub mod Search
mod Best
