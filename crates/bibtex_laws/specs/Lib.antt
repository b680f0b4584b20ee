pub mod Braces
pub mod Grammar
pub mod Limits
pub mod Faults
pub mod Past
