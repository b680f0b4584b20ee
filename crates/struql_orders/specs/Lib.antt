pub mod Terminals
pub mod Grammar
pub mod Reading
pub mod Ordered
