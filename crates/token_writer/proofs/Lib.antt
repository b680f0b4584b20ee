pub mod Quotes
pub mod Numbers
