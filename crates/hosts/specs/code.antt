pub mod Place
pub mod Lent
