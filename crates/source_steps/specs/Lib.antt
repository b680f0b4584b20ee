pub mod Names
pub mod Links
pub mod Fields
pub mod Once
