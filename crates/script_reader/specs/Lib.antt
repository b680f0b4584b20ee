pub mod Terminals
pub mod ScriptText
pub mod Reading
pub mod Spelled
pub mod Script
