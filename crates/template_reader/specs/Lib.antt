pub mod Template
pub mod Reading
pub mod Entries
pub mod Faults
pub mod Filed
pub mod OneAnswer
