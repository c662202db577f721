pub mod CommitDeeds
pub mod Committers
pub mod Counted
pub mod Ended
pub mod Renewed
