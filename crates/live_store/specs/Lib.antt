pub mod Shift
pub mod Counts
pub mod Live
