pub mod Origin
pub mod code
