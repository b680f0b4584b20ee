pub mod ServingLemmas
pub mod PutLemmas
pub mod Gained
pub mod CountLemmas
