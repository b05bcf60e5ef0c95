pub mod Kept
pub mod Written
pub mod Looks
pub mod Extents
