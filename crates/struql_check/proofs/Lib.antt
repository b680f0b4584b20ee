pub mod BlockParts
pub mod NameLists
pub mod ChainNames
pub mod Sorts
pub mod Firsts
pub mod Exactly
pub mod WalkParts
pub mod Tables
