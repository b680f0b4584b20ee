pub mod Made
pub mod Rules
pub mod Texts
