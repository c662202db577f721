-- The result of several steps of one caller.
pub mod Middle
pub mod Sequences
pub mod Alike
pub mod Deliveries
pub mod Left
pub mod Creators
pub mod Dispatch
pub mod Execution
pub mod Passing
pub mod Flushing
pub mod Recovery
pub mod Retirement
