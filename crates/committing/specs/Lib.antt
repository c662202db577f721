pub mod Committing
pub mod RunEnds
