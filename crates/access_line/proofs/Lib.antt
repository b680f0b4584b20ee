pub mod BodyLemmas
pub mod LineLemmas
