pub mod Verdicts
pub mod Wanted
