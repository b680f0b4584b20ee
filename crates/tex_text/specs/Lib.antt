pub mod Letters
pub mod Elements
pub mod Shown
