pub mod Forget
pub mod BlockTexts
