pub mod Targets
pub mod Parsed
pub mod Runs
