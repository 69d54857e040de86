pub mod Steps
pub mod Readings
pub mod Laws
pub mod Origins
