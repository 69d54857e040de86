pub mod Clean
pub mod code
