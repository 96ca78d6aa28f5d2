pub mod Sums
pub mod Finds
pub mod Chains
pub mod Weights
pub mod Counting
pub mod Transfers
pub mod Changes
