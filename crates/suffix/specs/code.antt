pub mod Pass
pub mod Depth
pub mod Passed
pub mod Idle
pub mod Deeper
pub mod Form
