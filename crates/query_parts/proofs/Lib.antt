pub mod Bools
pub mod Pairs
pub mod Same
