pub mod Handing
pub mod Causes
