pub mod Tidied
pub mod Commas
pub mod Loops
pub mod Steps
mod Cleared
mod Spelled
mod SpelledText
mod Noted
mod Gathered
mod Marks
