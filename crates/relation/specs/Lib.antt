pub mod Living
pub mod Mirror
pub mod Orderly
pub mod Stands
pub mod Sweeps
pub mod Sources
pub mod Law
