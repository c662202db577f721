-- What other crates may cite, by topic.
pub mod Basics
pub mod Sound
pub mod Grows
pub mod SettledRegisters
pub mod SettledMemory
pub mod InOrderStep
pub mod Follows
pub mod Speculating
pub mod Kept
pub mod Stations
pub mod Commits
pub mod AheadKept
pub mod Tags
pub mod StationsShown
pub mod OperandsShown
pub mod Pairs
pub mod Halves
pub mod Fated
pub mod QueueBytes
pub mod QueuePlaces
pub mod Loads
pub mod Positions
pub mod Moves
pub mod Letting
pub mod Ends
pub mod Creators
pub mod Loading
pub mod Histories
pub mod Shared
pub mod Recent
pub mod Renewing
pub mod Serving
pub mod Heads
pub mod Makers
pub mod OneCaller
pub mod GoesOn
-- What only the laws of this crate cite.
mod Theorem
-- Runs that the check computes.
pub mod Runs
