pub mod AccountLemmas
pub mod Noting
