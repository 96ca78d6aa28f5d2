pub mod Patterns
pub mod Places
pub mod Openings
