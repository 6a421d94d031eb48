pub use Rattle.pat_mailboxes.specs.Mailboxes
pub use Rattle.pat_mailboxes.specs.queues.Lanes
pub mod Boxes
pub mod Deliveries
