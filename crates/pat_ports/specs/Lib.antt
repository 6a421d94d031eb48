pub mod Causes
pub mod Bytes
pub mod Ends
pub mod Memory
