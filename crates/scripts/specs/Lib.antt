pub mod Records
pub mod Text
pub mod Transcript
