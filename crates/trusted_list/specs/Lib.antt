pub mod TrustedList
pub mod code
