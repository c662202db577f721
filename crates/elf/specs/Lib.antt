pub mod Bytes
pub mod Images
pub mod Headers
pub mod Placing
pub mod Symbols
