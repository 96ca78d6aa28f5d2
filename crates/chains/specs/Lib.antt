pub mod Rows
pub mod Walks
pub mod Sound
