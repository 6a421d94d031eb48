pub mod commits
pub mod wakeups
pub mod thread_frames
pub mod mailbox_index
pub mod refcounts
