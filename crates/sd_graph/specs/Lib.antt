pub mod Statement
pub mod ProgramLimits
pub mod Inserted
pub mod Undone
pub mod Built
pub mod Stating
pub mod StatingLaws
pub mod Gathered
