pub mod Course
pub mod HubState
pub mod Line
pub mod Makes
pub mod Moments
pub mod Pieces
pub mod Turns
