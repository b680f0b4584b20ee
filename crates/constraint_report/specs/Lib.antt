pub mod Report
pub mod Here
pub mod Links
