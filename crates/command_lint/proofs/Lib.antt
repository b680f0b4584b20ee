pub mod Pieces
pub mod Once
pub mod Law
pub mod Taken
pub mod Judged
pub mod Items
