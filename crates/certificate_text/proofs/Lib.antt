pub mod TermLists
pub mod VariableLists
pub mod LineLists
pub mod NamedMentions
