pub mod Cuts
pub mod Words
pub mod Characters
pub mod Numbers
pub mod Folding
pub mod Functions
