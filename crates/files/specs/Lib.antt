pub mod Found
pub mod Files
pub mod Paths
pub mod Laws
