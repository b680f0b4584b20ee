pub mod Reads
pub mod OneAnswer
