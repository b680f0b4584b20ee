pub mod Segments
pub mod Targets
