pub mod Lists
pub mod Carried
pub mod Named
pub mod Tested
