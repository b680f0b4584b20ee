pub mod Parts
pub mod Offers
pub mod InGraph
pub mod Kept
