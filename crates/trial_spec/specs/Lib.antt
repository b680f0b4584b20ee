pub mod Data
pub mod Requests
pub mod Texts
pub mod Numbers
pub mod Events
pub mod Asked
