pub mod BlockParts
pub mod QueryParts
pub mod BlockLoop
pub mod Whole
pub mod TextOnly
pub mod Last
