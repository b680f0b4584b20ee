pub mod OwnLines
pub mod ToldLines
pub mod Added
pub mod FileLine
