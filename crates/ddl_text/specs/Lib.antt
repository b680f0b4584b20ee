pub mod Terminals
pub mod DataText
pub mod Next
pub mod Reading
pub mod Stated
pub mod Text
