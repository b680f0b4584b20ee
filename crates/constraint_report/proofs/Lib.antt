pub mod Reports
pub mod Listed
pub mod Alike
pub mod Adding
pub mod EachPage
pub mod Reaching
pub mod Whole
