pub mod ClosedValues
pub mod Making
pub mod Apart
