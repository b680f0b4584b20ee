pub mod Lines
pub mod Cuts
pub mod Values
pub mod Front
pub mod Text
pub mod Scans
pub mod Reads
pub mod Once
