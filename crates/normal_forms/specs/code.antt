pub mod Normals
pub mod Writing
pub mod Places
