pub mod Joins
pub mod JoinsLaws
pub mod Directions
pub mod Search
