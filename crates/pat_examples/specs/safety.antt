pub mod Build
pub mod Witnesses
pub mod Safe
pub mod Forms
pub mod Unsafe
