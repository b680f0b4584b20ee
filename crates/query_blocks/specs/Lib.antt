pub mod Blocks
pub mod Roots
