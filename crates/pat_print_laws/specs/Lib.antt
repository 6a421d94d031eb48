pub mod RoundTrip
pub mod ReadAgain
pub mod Examples
