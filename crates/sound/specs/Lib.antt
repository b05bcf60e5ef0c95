pub mod Owners
pub mod Maps
pub mod Slots
pub mod Layout
pub mod Check
