pub mod Figures
pub mod Soundness
