pub mod Reader
pub mod Utf8
pub mod Lexical
pub mod HexDigits
pub mod code
