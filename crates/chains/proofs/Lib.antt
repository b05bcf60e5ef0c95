pub mod Sets
pub mod Chains
pub mod Counts
pub mod Bounds
