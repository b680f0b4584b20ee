pub mod Adding
pub mod Keys
pub mod KeyLaws
pub mod Known
pub mod Answers
pub mod Numbers
