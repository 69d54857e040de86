pub mod AppId
pub mod Causes
pub mod SameKept
pub mod code
