pub mod Turns
pub mod Normal
