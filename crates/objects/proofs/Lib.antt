pub mod Edits
pub mod Scans
pub mod Settling
pub mod Ends
pub mod Effects
pub mod Placing
pub mod Keeping
