pub mod Shown
pub mod ShownParts
pub mod Spellable
pub mod Kept
pub mod Again
