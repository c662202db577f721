pub mod Denials
pub mod Follow
pub mod Histories
pub mod InTurn
pub mod Texts
pub mod Verdicts
pub mod Placed
