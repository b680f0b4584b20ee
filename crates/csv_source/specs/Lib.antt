pub mod Rules
pub mod Separators
pub mod Text
pub mod Reads
pub mod Once
pub mod Records
pub mod Reader
