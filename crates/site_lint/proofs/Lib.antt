mod NameLists
mod Data
mod Marks
mod LinkLaws
