pub mod Lexed
pub mod Endings
pub mod Steps
pub mod DataTexts
pub mod Csv
pub mod Json
mod Texts
pub mod Bibtex
pub mod Databases
pub mod DataFiles
