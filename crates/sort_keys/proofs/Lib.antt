pub mod Folds
mod Lookups
