pub mod Slots
pub mod Entries
pub mod Levels
pub mod LevelFacts
