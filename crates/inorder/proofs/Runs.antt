-- Whole runs that the check computes. One of them is the words of a table as well: a crate above cites it.
pub mod Examples
mod Decided
mod DecidedSteps
mod DecidedHistory
pub mod SharedRun
mod LoopRun
mod WrongPathRun
mod StoreRun
mod SpeculationRun
mod ReletRun
mod DeadLinkRun
mod TurnsRun
mod PairRun
mod RenewRun
mod Refused
mod SharedWakes
mod SharedWrongPath
mod NotLegal
