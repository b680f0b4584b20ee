pub mod Known
pub mod Places
pub mod Meaning
pub mod Resolved
pub mod Comparing
