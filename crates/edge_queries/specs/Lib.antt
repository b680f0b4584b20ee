pub mod Places
pub mod Ordered
pub mod Listed
pub mod Contents
