-- for others: that the text printed is read again
pub mod BareText
-- the crate's own
mod Fits
mod FitsTerm
mod Canon
mod Same
mod Twice
mod RoundTrip
mod Examples
mod Apart
mod Beginning
mod Writable
mod Again
