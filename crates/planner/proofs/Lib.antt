pub mod Best
pub mod Done
pub mod Named
pub mod Unique
pub mod Ranges
pub mod Counting
