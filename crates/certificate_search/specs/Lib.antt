pub mod Links
pub mod Reaching
pub mod Uses
pub mod Extending
pub mod LinkDepths
pub mod Budget
