pub mod Drafts
pub mod Progress
