pub mod Layout
pub mod Image
pub mod Stored
pub mod Tracks
