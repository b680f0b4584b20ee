pub mod Grouped
pub mod Items
