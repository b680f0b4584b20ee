pub mod Values
pub mod Frozen
pub mod Candidates
pub mod First
pub mod Trial
