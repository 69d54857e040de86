pub mod Places
pub mod Held
pub mod PlainString
