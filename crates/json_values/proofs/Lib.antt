pub mod Readings
pub mod Folding
pub mod Values
pub mod NameLaws
pub mod Sizes
pub mod Rereads
pub mod Valid
pub mod Utf8First
mod Examples
pub mod Laws
