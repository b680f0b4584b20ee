pub mod Told
pub mod Courses
pub mod Law
