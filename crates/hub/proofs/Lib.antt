pub mod MadeLemmas
pub mod NotedLemmas
mod PieceLemmas
mod StepLemmas
mod DateLemmas
mod ServeLemmas
pub mod StandLemmas
pub mod TurnLemmas
pub mod RunLemmas
