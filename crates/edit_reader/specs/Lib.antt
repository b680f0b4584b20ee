pub mod EditText
pub mod Reading
pub mod Spelled
pub mod Reads
