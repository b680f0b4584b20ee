pub mod Askable
pub mod Replies
pub mod Runs
pub mod Ends
