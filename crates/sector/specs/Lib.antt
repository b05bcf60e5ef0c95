pub mod Source
pub mod Device
