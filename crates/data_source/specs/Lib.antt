pub mod Numbered
pub mod Rules
pub mod Formats
pub mod Told
pub mod Takes
pub mod OneAnswer
