pub mod Shorter
pub mod Loops
pub mod Lists
pub mod TokenParts
pub mod ExpressionParts
pub mod ListParts
pub mod TermParts
pub mod ConditionParts
