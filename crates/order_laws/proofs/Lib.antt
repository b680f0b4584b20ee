pub mod Ordered
pub mod Keys
