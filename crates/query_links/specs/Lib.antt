pub mod Links
pub mod Mentions
