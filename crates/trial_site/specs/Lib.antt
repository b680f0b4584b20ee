pub mod Data
pub mod Room
pub mod Accepted
