pub mod TurnsLeft
