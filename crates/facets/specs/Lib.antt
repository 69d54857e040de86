pub mod Promises
pub mod Located
pub mod Cleanings
pub mod TallyFields
pub mod HeadFields
pub mod Demands
pub mod code
