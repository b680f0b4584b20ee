pub mod ByteLemmas
pub mod LookLemmas
