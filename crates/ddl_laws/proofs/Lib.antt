pub mod Pieces
pub mod Printed
pub mod Numbers
pub mod Written
pub mod Kindless
pub mod Rebuilt
pub mod Again
pub mod DataText
