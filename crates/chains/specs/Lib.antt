pub mod Sets
pub mod Chains
pub mod Told
pub mod Laws
