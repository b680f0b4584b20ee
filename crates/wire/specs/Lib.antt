pub mod Accounts
pub mod Events
pub mod Noted
pub mod Told
