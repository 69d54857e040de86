pub mod Answer
pub mod Decide
pub mod Location
pub mod SameLabel
pub mod code
