pub mod Named
pub mod Law
