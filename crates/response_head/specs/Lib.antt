pub mod ResponseHead
pub mod code
