pub mod Early
pub mod StandsFor
