pub mod Asks
pub mod Fixed
pub mod Keys
pub mod Known
pub mod Page
pub mod Told
