pub mod Foreign
pub mod Meaning
pub mod Writing
pub mod Conversion
