pub mod Relation
pub mod Places
