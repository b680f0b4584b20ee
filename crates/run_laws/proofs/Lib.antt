pub mod Quiet
pub mod Splits
pub mod Order
