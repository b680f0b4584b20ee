pub mod Logged
pub mod Written
