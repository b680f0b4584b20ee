pub mod Book
pub mod Replies
pub mod TcpState
pub mod Waits
pub mod Watching
