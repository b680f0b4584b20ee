pub mod Paths
pub mod Puts
pub mod Traced
