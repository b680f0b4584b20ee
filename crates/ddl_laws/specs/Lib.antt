pub mod RoundTrip
pub mod OneAnswer
