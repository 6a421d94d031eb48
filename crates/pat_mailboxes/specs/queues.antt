pub mod Nodes
pub mod Chained
pub mod Queues
pub mod Lanes
pub mod Pooled
