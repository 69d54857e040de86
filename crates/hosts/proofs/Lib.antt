pub mod Shapes
pub mod Places
pub mod Case
pub mod Ends
pub mod Laws
