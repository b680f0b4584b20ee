pub mod Runs
pub mod Plays
pub mod Courses
pub mod Law
