pub mod Terminals
pub mod Tag
pub mod Reading
