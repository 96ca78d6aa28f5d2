pub mod View
pub mod Says
pub mod Kept
