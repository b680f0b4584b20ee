pub mod Ascending
pub mod Loops
pub mod Lookups
