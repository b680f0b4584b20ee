pub mod Shown
pub mod Verdicts
pub mod Found
pub mod Zipped
mod Roles
mod Bound
