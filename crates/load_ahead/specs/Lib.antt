pub mod Ahead
pub mod StandsFor
