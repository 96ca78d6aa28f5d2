pub mod Words
pub mod Entries
pub mod Calls
pub mod State
pub mod Step
pub mod Examples
pub mod Laws
