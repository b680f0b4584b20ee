pub mod Judged
pub mod Links
