pub mod Built
pub mod Courses
pub mod Law
