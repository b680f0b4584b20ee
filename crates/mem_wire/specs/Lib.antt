pub mod Sent
pub mod WireInMemory
pub mod Steady
