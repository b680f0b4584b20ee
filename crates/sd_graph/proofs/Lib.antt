pub mod ByHash
pub mod Bare
pub mod CopiedLists
pub mod Gathering
pub mod Taken
