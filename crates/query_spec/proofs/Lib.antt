pub mod MentionLaws
pub mod VariableNumbers
