pub mod Heads
pub mod Connections
pub mod Course
pub mod Runs
pub mod Replies
pub mod Lists
pub mod Queries
pub mod Once
