pub mod Host
pub mod code
