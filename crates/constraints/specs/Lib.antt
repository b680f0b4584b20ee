pub mod Terminals
pub mod ConstraintText
pub mod Reading
pub mod Spelled
pub mod Names
pub mod Known
pub mod Refused
pub mod Constraints
