pub mod Orders
pub mod Rows
pub mod Text
pub mod Picture
pub mod Lines
