pub mod Matching
pub mod code
