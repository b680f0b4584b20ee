pub mod Ranges
pub mod Choices
pub mod Counting
pub mod Prices
