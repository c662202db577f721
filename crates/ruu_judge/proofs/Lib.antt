pub mod Judging
pub mod Values
