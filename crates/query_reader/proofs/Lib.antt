pub mod Weights
pub mod Tokens
pub mod Sound
pub mod Items
pub mod BlocksSound
pub mod ParsedQueries
pub mod Least
pub mod QueryText
