pub mod Payloads
mod Outer
mod Order
