pub mod Adding
pub mod Encodings
pub mod Lengths
pub mod Said
pub mod Sources
pub mod Whole
