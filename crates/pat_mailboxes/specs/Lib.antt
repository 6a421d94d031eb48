pub mod Mailboxes
pub mod Kept
pub mod queues
