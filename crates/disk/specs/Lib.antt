pub mod Geometry
pub mod Order
pub mod Causes
pub mod Layers
pub mod Refusals
pub mod Words
pub mod Bytes
pub mod Opening
