pub mod Kinds
pub mod Images
