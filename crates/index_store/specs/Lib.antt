pub mod Indexed
pub mod Ranks
