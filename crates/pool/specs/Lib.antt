pub mod Dispatching
pub mod Terms
