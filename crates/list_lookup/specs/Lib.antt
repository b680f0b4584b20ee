pub mod Picked
pub mod PickedLaws
