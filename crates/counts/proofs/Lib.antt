pub mod Cuts
pub mod EachShare
pub mod Histories
pub mod Kept
pub mod Moments
pub mod Parts
pub mod Sums
