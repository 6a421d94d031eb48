pub mod shared_steps
pub mod wakeups
