pub mod Visits
pub mod Explored
pub mod Searched
pub mod Joined
pub mod Selected
