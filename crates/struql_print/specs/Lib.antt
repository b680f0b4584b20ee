pub mod Texts
pub mod Block
