mod Gets
mod Breaking
mod FirstBad
mod Counted
mod Shaped
mod Scoped
mod Settled
mod Sound
