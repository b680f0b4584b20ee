pub mod Known
pub mod ItemFacts
pub mod WordParts
pub mod SettingParts
