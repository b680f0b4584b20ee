pub mod Counts
pub mod Ends
pub mod MemberChain
pub mod Wanted
