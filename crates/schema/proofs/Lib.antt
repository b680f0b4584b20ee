pub mod Created
pub mod RowLists
pub mod Sorted
pub mod Texts
pub mod Whole
pub mod PathLists
