pub mod DispatchDeeds
pub mod Sends
