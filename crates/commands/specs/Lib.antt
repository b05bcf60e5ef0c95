pub mod Accounts
pub mod Commands
pub mod Hex
pub mod Names
pub mod Numbers
pub mod Verbs
