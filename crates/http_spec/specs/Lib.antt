pub mod Asks
pub mod Heads
pub mod Replies
pub mod Sessions
pub mod Streams
pub mod Words
