pub mod Writings
pub mod NormalForms
pub mod PlainBytes
