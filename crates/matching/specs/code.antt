pub mod AtPlaces
pub mod Unlike
