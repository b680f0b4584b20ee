pub mod PositionSet
pub mod Positions
pub mod Table
pub mod Building
