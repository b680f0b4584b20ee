pub mod PagesLemmas
pub mod EditLemmas
