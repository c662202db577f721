pub mod Answer
pub mod Enough
pub mod Parsed
