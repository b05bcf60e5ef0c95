pub mod Names
pub mod Kinds
pub mod Entries
