pub mod FirstLine
pub mod Whole
