pub mod Lines
pub mod Encoded
pub mod Executables
