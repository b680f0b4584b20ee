pub mod Texts
pub mod ComposedTexts
pub mod Edits
pub mod Touching
pub mod RunTexts
