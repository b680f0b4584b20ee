pub mod GroupLaws
pub mod PickLaws
mod GivesLaws
