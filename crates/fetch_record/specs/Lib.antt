pub mod Record
pub mod Fetching
pub mod code
