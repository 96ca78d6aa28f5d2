pub mod Shape
pub mod Tables
pub mod Says
pub mod Places
pub mod Held
