pub mod Json
pub mod RawJson
pub mod code
