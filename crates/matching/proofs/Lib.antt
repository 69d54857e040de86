pub mod Compared
pub mod UnlikeSteps
pub mod Laws
