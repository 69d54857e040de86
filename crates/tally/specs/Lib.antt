pub mod Tally
pub mod code
