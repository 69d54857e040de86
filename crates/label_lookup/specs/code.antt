pub mod Answer
pub mod Finds
pub mod Span
pub mod Search
