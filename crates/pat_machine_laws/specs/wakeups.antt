pub mod Wakings
pub mod Senders
pub mod Laws
