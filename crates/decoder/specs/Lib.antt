pub mod Decoding
pub mod Writing
pub mod Laws
pub mod Wholes
