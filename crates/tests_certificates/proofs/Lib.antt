pub mod Steps
pub mod UseSteps
pub mod Chains
pub mod Decided
