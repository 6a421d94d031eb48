pub mod safety
pub mod derivations
pub mod inference
pub mod solving
pub mod checkpoints
