pub mod Feeding
pub mod Kept
pub mod Parsing
