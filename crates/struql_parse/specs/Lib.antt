pub mod Blocks
pub mod Reading
pub mod Found
pub mod Stated
pub mod Refused
pub mod Text
pub mod Keeping
