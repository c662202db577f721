pub mod Each
pub mod Halves
pub mod Table
pub mod Rebuilt
pub mod Written
