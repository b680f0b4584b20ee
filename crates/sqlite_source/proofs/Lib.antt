pub mod Marks
pub mod Scanning
pub mod Steps
pub mod Listing
pub mod Sheeting
pub mod Bridges
