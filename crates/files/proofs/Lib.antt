pub mod Followed
pub mod Files
pub mod Extracts
pub mod Paths
