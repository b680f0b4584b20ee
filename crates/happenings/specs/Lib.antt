pub mod Coding
pub mod Happening
