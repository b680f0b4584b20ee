pub mod HeadLemmas
pub mod StreamLemmas
pub mod OnceLemmas
pub mod LaterLemmas
