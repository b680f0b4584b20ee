pub mod Named
pub mod Ends
pub mod ListedSites
