pub mod Asked
pub mod Fits
pub mod Lends
pub mod Told
pub mod Tries
