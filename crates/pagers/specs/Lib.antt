pub mod Bounds
pub mod Extents
pub mod Images
pub mod Layouts
pub mod Meaning
pub mod Pattern
