pub mod Among
pub mod Causes
pub mod InTurn
pub mod Puts
pub mod Sparing
pub mod Standing
pub mod Writing
