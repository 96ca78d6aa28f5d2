pub mod Cuts
pub mod Tags
