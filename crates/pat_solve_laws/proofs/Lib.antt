mod Known
mod Ties
mod Good
mod Formed
mod Terms
mod Values
mod Marked
mod Certs
mod Scoped
mod Entries
mod Valid
mod Alike
pub mod Apart
mod Untypable
pub mod Closed
mod KindsThere
mod InterfacesThere
mod Grids
mod Solved
mod OneAnswer
