pub mod Names
pub mod Rules
pub mod Document
pub mod Tables
pub mod Orders
pub mod Text
pub mod Reads
pub mod Once
