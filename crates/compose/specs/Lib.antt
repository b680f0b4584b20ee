pub mod Adding
pub mod Stated
pub mod Listed
