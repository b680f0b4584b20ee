pub mod Texts
pub mod Once
pub mod Causes
pub mod Law
