pub mod Scripts
pub mod Edits
pub mod Templates
pub mod Constraints
pub mod FirstFaults
pub mod Queries
pub mod Trials
