pub mod Growing
pub mod Numbers
pub mod Steps
pub mod Deeper
pub mod Extending
pub mod RenamedSteps
pub mod Spending
