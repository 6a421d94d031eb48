pub mod refcounts
pub mod ready_sets
pub mod messages
