pub mod Site
pub mod Distinct
pub mod Charges
pub mod CountsAtMost
