pub mod State
pub mod Settled
pub mod Flight
pub mod Transitions
pub mod Runs
