pub mod Known
pub mod Found
pub mod Steps
pub mod Rows
pub mod Told
pub mod Tries
