pub mod Telling
pub mod Adding
