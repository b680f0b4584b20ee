pub mod Lines
pub mod Asks
pub mod Ends
pub mod Law
pub mod Links
