pub mod Decodes
pub mod Codes
pub mod Groups
pub mod Swaps
pub mod Writes
pub mod Devices
