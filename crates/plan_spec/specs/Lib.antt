pub mod Cost
pub mod Plan
pub mod Shape
