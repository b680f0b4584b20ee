pub mod Bytes
pub mod Values
pub mod Macros
pub mod Reading
pub mod Clear
