pub mod Scope
pub mod Faults
pub mod First
pub mod Known
pub mod Parsed
pub mod Checked
