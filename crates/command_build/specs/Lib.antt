pub mod Ends
pub mod Course
pub mod Law
