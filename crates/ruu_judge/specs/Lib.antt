pub mod Answers
pub mod Calls
pub mod Slots
pub mod Units
