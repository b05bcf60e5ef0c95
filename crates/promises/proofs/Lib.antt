pub mod Claims
pub mod Slots
pub mod Maps
pub mod Accepts
pub mod Accepted
