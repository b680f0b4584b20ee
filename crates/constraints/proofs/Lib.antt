pub mod Parts
pub mod Whole
pub mod Names
pub mod Lookup
pub mod Faults
pub mod Once
