pub mod Counted
pub mod Wanted
