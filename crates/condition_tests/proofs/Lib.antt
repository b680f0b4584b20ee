pub mod Atoms
pub mod Equal
pub mod Decided
pub mod Numbers
pub mod Ascending
